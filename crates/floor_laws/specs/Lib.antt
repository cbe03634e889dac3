pub mod Kept
pub mod Coincide
