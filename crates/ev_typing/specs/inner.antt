pub mod Places
pub mod Instances
