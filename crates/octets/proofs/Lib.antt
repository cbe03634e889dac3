-- Laws of what is stated in specs/, for the proofs here and for all crates above.
pub mod Over
pub mod Lays
pub mod Numbers
