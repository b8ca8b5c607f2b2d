pub mod Finding
pub mod Applying
pub mod Replaying
pub mod Labels
