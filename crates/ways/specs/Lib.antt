pub mod Ways
pub mod Refusals
