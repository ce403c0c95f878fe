pub mod QueueFacts
pub mod StepFacts
pub mod TurnFacts
pub mod RecordFacts
pub mod DriveFacts
