pub mod Faults
pub mod Tables
pub mod Uses
pub mod Memory
pub mod Rings
pub mod Loading
