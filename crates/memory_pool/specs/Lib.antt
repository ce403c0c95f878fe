pub mod Ranges
pub mod Faults
pub mod Regions
pub mod Wanted
pub mod Places
pub mod Placements
pub mod OrderedBlocks
pub mod Soundness
