pub mod Positions
pub mod Routes
pub mod Evaluations
