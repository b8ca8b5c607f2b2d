pub mod Ending
pub mod WordLaws
pub mod OneStep
pub mod LineLaws
pub mod BodyLaws
mod ReadingExamples
