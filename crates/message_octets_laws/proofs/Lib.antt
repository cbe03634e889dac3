-- Proofs of specs/Laws, and a message with every field by computing alone.
pub mod Back
pub mod Again
pub mod Done
pub mod Worked
