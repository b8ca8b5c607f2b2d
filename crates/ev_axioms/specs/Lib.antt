pub mod AxiomText
pub mod Axioms
pub mod AxiomLaws
pub mod inner
