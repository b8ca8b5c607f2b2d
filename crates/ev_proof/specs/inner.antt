pub mod Following
pub mod StepAnswers
pub mod Words
