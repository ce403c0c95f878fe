pub mod OutputFacts
