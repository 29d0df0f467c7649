pub mod Views
pub mod Outputs
pub mod Working
