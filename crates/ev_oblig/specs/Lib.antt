pub mod Obligations
pub mod inner
