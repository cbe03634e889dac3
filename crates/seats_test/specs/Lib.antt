pub mod Seats
pub mod Seated
