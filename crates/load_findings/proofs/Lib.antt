pub mod Outcomes
pub mod Mapped
pub mod Firsts
