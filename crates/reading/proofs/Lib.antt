-- Laws of the definitions that the functions here cite.
pub mod Judges
