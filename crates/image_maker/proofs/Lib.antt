pub mod Joins
pub mod CodeBytes
pub mod ReadSegments
pub mod ReadTable
pub mod ReadImages
pub mod ReadRecipes
pub mod ReadRecords
mod DemoTexts
mod DemoNumbers
mod DemoWords
mod DemoLines
mod DemoSays
pub mod DemoSizes
mod DemoRunnable
pub mod Lengths
