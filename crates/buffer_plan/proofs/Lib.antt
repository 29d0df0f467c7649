pub mod ListFacts
pub mod StepFacts
pub mod SortFacts
pub mod AssignFacts
