-- Laws that the functions here share, and that the round trip cites.
pub mod Lengths
pub mod Ways
pub mod Whole
pub mod Spares
