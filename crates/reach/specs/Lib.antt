pub mod Sound
pub mod Reach
