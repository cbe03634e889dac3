pub mod Places
pub mod Columns
pub mod Form
