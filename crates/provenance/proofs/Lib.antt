pub mod LeastSources
pub mod Parts
pub mod NextPairs
pub mod Walks
pub mod Questions
pub mod Explanations
