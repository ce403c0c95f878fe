pub mod Tabled
pub mod ReadBack
