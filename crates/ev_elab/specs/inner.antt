pub mod Tests
pub mod Takes
pub mod Flaws
