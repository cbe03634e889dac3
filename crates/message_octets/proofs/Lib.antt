-- The laws that the functions' proofs share.
pub mod Bits
pub mod Laying
pub mod Answers
