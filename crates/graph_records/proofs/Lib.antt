pub mod ListFacts
pub mod FitFacts
pub mod WrittenListFacts
pub mod PlainTextFacts
pub mod ReadBackLaws
pub mod Examples
