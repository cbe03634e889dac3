-- Laws of checks 1 to 8 and of the header, for the proofs here and for all crates above.
pub mod Openings
pub mod Headers
