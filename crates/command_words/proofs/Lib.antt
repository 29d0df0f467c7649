pub mod TakenLaws
pub mod NumeralFacts
pub mod RangeLaws
