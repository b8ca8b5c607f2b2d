pub mod Params
pub mod inner
