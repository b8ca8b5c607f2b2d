pub mod Lists
pub mod OpenTypes
pub mod Nesting
