pub mod Levels
pub mod Forms
pub mod Closings
pub mod Frames
pub mod Braces
pub mod FormulaAnswers
pub mod Taking
pub mod Places
