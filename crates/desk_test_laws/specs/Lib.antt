pub mod Typed
pub mod Passes
