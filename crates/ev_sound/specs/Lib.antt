pub mod Equations
pub mod Laws
pub mod Unfoldings
pub mod Proofs
pub mod Headline
