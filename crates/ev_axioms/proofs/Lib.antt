pub mod Stacks
pub mod Typedness
pub mod AxiomTypes
pub mod Built
pub mod Groups
pub mod Kept
pub mod Undone
