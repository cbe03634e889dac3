pub mod Seat
