pub mod Layout
pub mod Framing
