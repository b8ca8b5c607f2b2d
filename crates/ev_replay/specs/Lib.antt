pub mod Scopes
pub mod Reading
pub mod Citing
pub mod RuleSteps
pub mod StepForms
pub mod Steps
pub mod Replay
pub mod inner
