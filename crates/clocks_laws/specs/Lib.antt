pub mod Clockwork
