pub mod Places
pub mod Instances
pub mod Matching
pub mod PlaceLaws
pub mod inner
