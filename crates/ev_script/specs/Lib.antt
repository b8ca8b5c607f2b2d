pub mod SequentNames
pub mod Scripts
pub mod Laws
pub mod Generator
pub mod inner
