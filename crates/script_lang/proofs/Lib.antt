pub mod Cuts
pub mod Front
pub mod Walk
pub mod Ranges
pub mod Runnable
