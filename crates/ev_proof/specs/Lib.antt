pub mod Steps
pub mod Depths
pub mod Lines
pub mod StepLaws
pub mod inner
