pub mod Naming
pub mod Same
