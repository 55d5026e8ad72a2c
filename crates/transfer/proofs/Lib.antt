pub mod Fetched
pub mod Bills
