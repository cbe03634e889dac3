pub mod Wire
pub mod Puts
pub mod Contents
