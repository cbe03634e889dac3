pub mod InLine
pub mod Did
pub mod Counts
