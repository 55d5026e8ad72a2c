pub mod TableLaws
pub mod StatementLaws
pub mod Classes
pub mod Accesses
pub mod Spans
pub mod Parallelizable
pub mod SeenClasses
pub mod Ranges
