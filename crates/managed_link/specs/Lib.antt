pub mod EndCodes
pub mod Known
pub mod Hands
pub mod Settles
pub mod Steps
pub mod Taken
pub mod Views
pub mod Managed
