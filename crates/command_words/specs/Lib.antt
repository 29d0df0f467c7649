pub mod Commands
pub mod Numbers
pub mod Rendering
pub mod Compiling
pub mod Checking
pub mod Demos
pub mod Requests
