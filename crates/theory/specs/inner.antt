pub mod Pieces
pub mod Parsing
pub mod Scripts
pub mod Reports
pub mod Answers
