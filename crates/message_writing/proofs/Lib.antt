-- Laws that the functions here share.
pub mod Laws
pub mod Forms
