pub mod Walks
pub mod Search
pub mod Usable
pub mod Leaving
pub mod Nearest
