mod TextExamples
mod GraphExamples
mod EventExamples
mod StatusExamples
pub mod KeptLaws
pub mod ReadLaws
pub mod ChangeLaws
pub mod GraphLaws
pub mod AcyclicLaws
pub mod NextLaws
pub mod ReachLaws
pub mod OrderLaws
pub mod JoinLaws
pub mod ScopeLaws
pub mod CiteLaws
pub mod LawProofs
