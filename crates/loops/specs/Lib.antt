pub mod Tables
pub mod Statements
pub mod Section
pub mod Parallel
