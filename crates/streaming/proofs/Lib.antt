pub mod PartLaws
pub mod StreamLaws
pub mod AnswerLaws
pub mod TakeFacts
pub mod LoopFacts
pub mod WholeFacts
