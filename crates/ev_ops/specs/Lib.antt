pub mod Admission
pub mod Entries
pub mod Formulas
pub mod Unfold
pub mod UnfoldLaws
pub mod inner
