pub mod Parts
pub mod LoadedBytes
pub mod RingPlaces
