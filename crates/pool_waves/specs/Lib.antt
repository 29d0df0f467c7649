pub mod Exchanges
pub mod Waves
