pub mod Assignments
pub mod Needs
pub mod Records
pub mod Reading
pub mod Plans
pub mod Tables
