pub mod Laws
pub mod Looking
