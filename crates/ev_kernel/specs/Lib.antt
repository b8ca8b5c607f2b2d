pub mod Row
pub mod Derivable
pub mod inner
