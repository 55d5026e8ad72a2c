pub mod Columns
pub mod Layout
pub mod Entries
pub mod Supplied
