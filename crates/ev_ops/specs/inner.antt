pub mod Tests
pub mod Kept
pub mod Fit
pub mod Weights
