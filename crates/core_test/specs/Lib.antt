pub mod Test
pub mod Line
