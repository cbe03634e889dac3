pub mod Demands
