pub mod Request
pub mod Cut
