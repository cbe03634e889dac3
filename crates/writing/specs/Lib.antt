pub mod Wire
pub mod Writing
pub mod Puts
