pub mod Drivers
pub mod Runs
