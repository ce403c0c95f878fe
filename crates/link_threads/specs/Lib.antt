pub mod Actors
pub mod Lives
