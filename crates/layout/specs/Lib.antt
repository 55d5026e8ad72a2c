pub mod Bodies
pub mod Declarations
pub mod Frames
pub mod Sections
