pub mod PartFacts
pub mod GatherFacts
pub mod ScatterFacts
pub mod ServeFacts
pub mod PlayFacts
