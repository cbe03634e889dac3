pub mod Same
pub mod Laws
pub mod Names
pub mod Seated
