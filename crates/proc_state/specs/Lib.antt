pub mod Faults
pub mod Lives
