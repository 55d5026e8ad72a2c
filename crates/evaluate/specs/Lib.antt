pub mod Inputs
pub mod Words
