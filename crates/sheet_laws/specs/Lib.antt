pub mod Sheets
pub mod Byhand
