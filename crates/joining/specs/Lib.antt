pub mod Join
pub mod Joins
