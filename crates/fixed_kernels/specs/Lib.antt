pub mod Kernels
pub mod Streams
pub mod Types
pub mod Sections
pub mod States
pub mod Rows
pub mod Sums
