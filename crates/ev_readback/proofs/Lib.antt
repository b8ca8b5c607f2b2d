pub mod Rows
pub mod Parameters
pub mod Used
pub mod Meanings
pub mod WrittenTypes
pub mod BareTerms
pub mod Resolving
pub mod LawProofs
