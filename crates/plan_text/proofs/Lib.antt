pub mod DigitLaws
pub mod NumberLaws
pub mod LineLaws
pub mod SectionLaws
pub mod OnceLaws
pub mod PlanLaws
pub mod ReadLaws
pub mod PrintLaws
