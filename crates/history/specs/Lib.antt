pub mod Doing
pub mod Asking
