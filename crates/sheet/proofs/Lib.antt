pub mod Sizes
pub mod Frames
