pub mod Deeds
pub mod CoreDeeds
pub mod Accounts
pub mod DoneDeeds
