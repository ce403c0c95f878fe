pub mod Segments
pub mod Tables
pub mod Images
pub mod ReadBack
pub mod Demo
