pub mod Choices
pub mod Made
