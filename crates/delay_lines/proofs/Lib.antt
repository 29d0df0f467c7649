pub mod LineLaws
pub mod PassedFacts
pub mod ViewLaws
