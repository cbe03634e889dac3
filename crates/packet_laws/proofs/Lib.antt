-- Proofs of specs/Again: Back, Again, Steps, Promised and Coincide each prove the statements that name them; the laws under them stand
-- first. Repeats proves specs/Repeats.
pub mod Numbers
pub mod Fits
pub mod Places
pub mod Walk
pub mod Back
pub mod Judged
pub mod Steps
pub mod Kept
pub mod Sizes
pub mod Again
pub mod Coincide
pub mod Promised
pub mod Repeats
