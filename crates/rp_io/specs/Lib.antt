pub mod Adapters
pub mod Calls
pub mod Causes
pub mod Contents
pub mod Images
pub mod InMemory
