pub mod Parts
pub mod Dumps
