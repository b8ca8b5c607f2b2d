pub mod Reading
pub mod Bare
pub mod Resolve
pub mod UsedNames
pub mod TakenNames
pub mod inner
