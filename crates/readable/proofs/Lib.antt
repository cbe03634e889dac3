-- Laws that the functions here share, and that the writers above cite.
pub mod Chains
pub mod Fits
