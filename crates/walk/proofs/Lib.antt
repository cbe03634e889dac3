-- Laws of the definitions that the functions here cite, and that the reader above cites.
pub mod Walks
pub mod Reaches
