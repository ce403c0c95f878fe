pub mod Owners
pub mod RingLanes
pub mod RingLinks
pub mod RingSteps
pub mod RingWords
pub mod Rings
pub mod SoundRings
