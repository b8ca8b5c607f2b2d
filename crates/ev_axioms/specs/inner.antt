pub mod Building
pub mod Rows
pub mod Checks
pub mod Undoing
