pub mod Networks
pub mod Links
pub mod Places
pub mod Numbered
pub mod Carried
pub mod Values
pub mod Mirrors
pub mod SharedNetworks
