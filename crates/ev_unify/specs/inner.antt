pub mod Parts
pub mod Numbered
pub mod Sides
pub mod Cells
pub mod Links
pub mod Clashes
pub mod Ranks
pub mod Binding
