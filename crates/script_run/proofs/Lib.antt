pub mod Ends
pub mod YardEnds
pub mod FaultLines
pub mod SoFar
pub mod FetchedReports
pub mod Matches
pub mod WordForms
pub mod DemoSums
