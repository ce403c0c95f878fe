pub mod Lines
pub mod Readings
pub mod Marks
pub mod Entries
pub mod Rules
pub mod Audits
pub mod Tables
pub mod Deliveries
