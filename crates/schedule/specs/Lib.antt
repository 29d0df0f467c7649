pub mod Groups
pub mod Depths
pub mod Levels
