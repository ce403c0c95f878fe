pub mod Faults
pub mod Arrays
pub mod Forms
pub mod Regions
pub mod Tables
pub mod Loads
pub mod Messages
