pub mod Measures
pub mod Heads
pub mod Marks
pub mod Drawings
