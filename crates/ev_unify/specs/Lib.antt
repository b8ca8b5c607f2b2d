pub mod Patterns
pub mod Solutions
pub mod inner
