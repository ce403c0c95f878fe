pub mod Aliases
pub mod Placings
pub mod Walks
pub mod LoadFaults
