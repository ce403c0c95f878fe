pub mod Named
pub mod Workers
pub mod Records
pub mod Works
