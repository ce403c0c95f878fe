pub mod Actors
pub mod ActorEnds
pub mod ActorSteps
pub mod PendingCalls
