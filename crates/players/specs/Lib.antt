pub mod Reads
pub mod Servers
pub mod Plays
