pub mod Walks
pub mod Saves
