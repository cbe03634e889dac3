pub mod Seats
pub mod Answers
