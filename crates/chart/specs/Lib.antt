pub mod Keys
pub mod Marks
pub mod Readings
pub mod Rows
pub mod Orders
pub mod Charts
pub mod Laws
