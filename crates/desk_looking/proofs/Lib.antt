pub mod Looks
pub mod Short
