-- Laws that the functions here share, and that the writers above cite.
pub mod Fields
pub mod Sizes
pub mod Lengths
pub mod Bodies
