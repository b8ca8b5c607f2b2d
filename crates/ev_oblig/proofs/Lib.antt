pub mod Quantifying
pub mod Listing
pub mod Sizes
