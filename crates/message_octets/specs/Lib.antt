pub mod Places
pub mod Held
pub mod Laying
pub mod Zeros
