pub mod StandFacts
pub mod BeginFacts
pub mod WrittenFacts
pub mod BlockFacts
pub mod RenderFacts
pub mod MadeFacts
