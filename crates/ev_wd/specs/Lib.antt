pub mod Rows
pub mod Limits
pub mod Makers
pub mod Demands
pub mod WellDefined
pub mod ConditionLaws
pub mod inner
