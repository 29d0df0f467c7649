pub mod GroupFacts
pub mod DepthFacts
pub mod LevelFacts
