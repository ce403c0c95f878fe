pub mod Reached
pub mod Kept
pub mod Starts
pub mod ClosedLinks
pub mod CrashedCores
pub mod Drives
pub mod Reopenings
pub mod Notes
