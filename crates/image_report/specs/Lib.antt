pub mod TableRows
pub mod Reports
