pub mod Destructors
pub mod Renaming
pub mod Sketches
pub mod Marks
