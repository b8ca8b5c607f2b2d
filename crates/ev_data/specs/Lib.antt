pub mod Admission
pub mod Closed
pub mod Induction
pub mod DataLaws
pub mod Guarded
pub mod Sound
pub mod inner
