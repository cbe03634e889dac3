pub mod InLine
pub mod Steps
pub mod Hall
pub mod Reach
