pub mod Words
pub mod Formulas
pub mod Theorems
pub mod Steps
pub mod Scripts
pub mod Reports
pub mod Answers
pub mod inner
