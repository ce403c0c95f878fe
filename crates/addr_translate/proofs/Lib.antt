pub mod Pairs
pub mod Sound
pub mod Found
pub mod Zeros
