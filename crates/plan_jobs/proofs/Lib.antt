pub mod HingeFacts
pub mod ReadyFacts
pub mod TurnFacts
pub mod MakeFacts
pub mod NodeFacts
pub mod JobFacts
pub mod WireFacts
