pub mod Faults
pub mod Rings
pub mod Sizes
