pub mod Annotates
pub mod Equations
pub mod Inference
pub mod Laws
pub mod Answers
pub mod inner
