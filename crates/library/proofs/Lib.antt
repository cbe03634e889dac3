pub mod Looks
pub mod Rows
pub mod Agrees
pub mod Library
