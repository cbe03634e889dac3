pub mod Each
pub mod Told
pub mod Floor
