pub mod Items
pub mod Wholes
pub mod Fronts
pub mod Sequences
pub mod Depths
pub mod inner
