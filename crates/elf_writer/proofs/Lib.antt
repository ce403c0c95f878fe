pub mod ReadFields
pub mod ReadLoads
pub mod ReadImages
