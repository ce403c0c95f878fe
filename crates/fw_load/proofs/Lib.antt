pub mod Bytes
pub mod Steps
pub mod Places
pub mod Refusals
pub mod Fitting
pub mod Meant
pub mod Buffers
pub mod Wide
