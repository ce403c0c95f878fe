pub mod Ascending
pub mod Fronts
pub mod Named
pub mod TextNames
