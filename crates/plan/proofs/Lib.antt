pub mod Symbols
pub mod TableLaws
pub mod Images
pub mod Settling
pub mod NeedTables
pub mod NeedsMet
pub mod Stages
pub mod Verdict
