pub mod Apart
pub mod Phases
pub mod Walk
pub mod Laws
pub mod Refusals
