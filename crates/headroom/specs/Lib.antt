pub mod Loud
pub mod Answers
pub mod Laws
pub mod Found
