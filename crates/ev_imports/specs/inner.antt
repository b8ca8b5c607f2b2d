pub mod Found
pub mod Listing
