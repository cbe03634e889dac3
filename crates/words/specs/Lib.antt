pub mod Below
pub mod Choice
pub mod Table
