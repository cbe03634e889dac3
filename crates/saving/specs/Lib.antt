pub mod Saving
pub mod Walk
