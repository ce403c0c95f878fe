pub mod Layout
pub mod Faults
pub mod Entries
pub mod Tables
pub mod Patches
pub mod PatchedEntries
pub mod Walks
