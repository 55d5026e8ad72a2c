pub mod Chunks
pub mod Framing
pub mod Ranges
pub mod Scans
pub mod Starts
pub mod Columns
pub mod Stages
