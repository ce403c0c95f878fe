pub mod Binds
pub mod Gaps
pub mod Lookups
pub mod Places
