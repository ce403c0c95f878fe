pub mod ReadBack
pub mod Steps
