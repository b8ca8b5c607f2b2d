pub mod Fields
pub mod HeaderLines
pub mod RuleLines
pub mod Shallow
pub mod Texts
pub mod Laws
pub mod inner
