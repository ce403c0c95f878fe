pub mod Framed
pub mod Zeros
