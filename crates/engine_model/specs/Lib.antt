pub mod Machines
pub mod States
pub mod Engines
pub mod Events
pub mod Laws
pub mod Cuttings
pub mod Sizes
