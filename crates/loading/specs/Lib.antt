pub mod Loading
pub mod Walk
