pub mod Filled
pub mod InLine
pub mod Core
pub mod Seats
pub mod Sound
