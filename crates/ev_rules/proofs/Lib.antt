pub mod Numbering
pub mod Marking
