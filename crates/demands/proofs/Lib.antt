pub mod Places
pub mod OfEach
pub mod Counts
pub mod Steps
pub mod Order
