pub mod Answers
pub mod Networks
pub mod Waves
pub mod Homes
pub mod Buffers
pub mod Verdicts
pub mod Tenants
