pub mod RunAccounts
pub mod CoreAccounts
pub mod WordedTakes
pub mod TakersLines
pub mod CommandTakes
