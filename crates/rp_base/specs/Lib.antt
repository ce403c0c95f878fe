pub mod Fields
pub mod Limits
pub mod Texts
pub mod Faults
