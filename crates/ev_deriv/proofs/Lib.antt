mod DerivationExamples
pub mod FieldSteps
pub mod TextLaws
pub mod FrontLaws
pub mod KindLaws
pub mod NoSign
pub mod NoAt
pub mod Commas
pub mod OneLine
