pub mod Numbers
pub mod Entries
pub mod Rows
pub mod Walk
pub mod Typed
pub mod Written
pub mod FaultTexts
pub mod Laws
