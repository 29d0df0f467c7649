pub mod Jobs
pub mod Made
pub mod Hinges
pub mod Blocks
pub mod Sharing
