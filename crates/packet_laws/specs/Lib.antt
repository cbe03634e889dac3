pub mod Again
pub mod Repeats
pub mod Packets
