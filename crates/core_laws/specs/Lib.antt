pub mod BenchMoves
pub mod CrashCallers
pub mod FoundImages
pub mod Beginnings
pub mod ClosedLinks
pub mod DriveParts
pub mod NamedFaults
