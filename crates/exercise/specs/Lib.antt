pub mod Thursday
pub mod Idle
