pub mod EndChanges
pub mod ServiceChanges
pub mod Generations
