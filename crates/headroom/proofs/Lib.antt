pub mod OutputFacts
pub mod LoudFacts
pub mod FoundFacts
pub mod GraphTestFacts
pub mod Examples
