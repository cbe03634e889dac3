-- The laws of a set as a number, and what the search opens at a choice.
pub mod Choices
pub mod Masks
