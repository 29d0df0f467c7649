pub mod Samples
pub mod Heads
pub mod Chunks
pub mod Formats
pub mod Files
pub mod Laws
