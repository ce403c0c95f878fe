pub mod Machines
pub mod Boards
pub mod Lines
pub mod Texts
