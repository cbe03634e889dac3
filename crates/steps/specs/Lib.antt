pub mod Words
pub mod Causes
