pub mod Walks
pub mod Cycles
pub mod Reached
pub mod inner
