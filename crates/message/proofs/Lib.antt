-- Laws of what is stated in specs/, for the proofs here and for all crates above.
pub mod Rows
pub mod Paddings
pub mod Answers
pub mod Parts
pub mod Required
pub mod Types
