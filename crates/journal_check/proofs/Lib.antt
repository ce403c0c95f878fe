pub mod SideFacts
pub mod RecordFacts
pub mod BookFacts
pub mod EndingFacts
pub mod AuditFacts
pub mod DeliveryFacts
pub mod OneReading
pub mod Found
