pub mod PendingLanes
pub mod PendingSteps
pub mod PendingActors
pub mod ReadyActors
pub mod ReadyOthers
pub mod ReadyParts
