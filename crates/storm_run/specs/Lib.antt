pub mod Counts
pub mod Managers
pub mod Rounds
pub mod Storms
pub mod Tasks
