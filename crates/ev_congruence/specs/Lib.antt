pub mod Growing
pub mod Limits
pub mod Settings
pub mod Equating
pub mod Witnesses
pub mod inner
