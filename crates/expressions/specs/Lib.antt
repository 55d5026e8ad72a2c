pub mod Nodes
pub mod Steps
pub mod Licences
