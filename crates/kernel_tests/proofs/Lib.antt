pub mod LimiterFacts
pub mod TapFacts
