pub mod Appends
pub mod Blocks
