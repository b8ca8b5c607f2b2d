pub mod Lowered
pub mod Slots
pub mod Taken
