pub mod Back
pub mod Fits
pub mod One
