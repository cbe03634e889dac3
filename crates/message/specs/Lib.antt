pub mod Types
pub mod Table
pub mod Message
pub mod Answers
pub mod Asked
