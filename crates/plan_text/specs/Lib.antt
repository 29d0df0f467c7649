pub mod Lines
pub mod Numbers
pub mod Order
pub mod Texts
pub mod Laws
pub mod Reading
pub mod Printing
