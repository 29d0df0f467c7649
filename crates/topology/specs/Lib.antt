pub mod Answers
pub mod Laws
pub mod Links
pub mod Blocks
pub mod Taken
pub mod Marks
pub mod Reaches
