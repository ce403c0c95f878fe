pub mod LineFacts
pub mod RowFacts
pub mod JoinFacts
pub mod LawFacts
