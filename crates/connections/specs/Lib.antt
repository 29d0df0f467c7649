pub mod Faults
pub mod Facts
pub mod Laws
pub mod Places
