pub mod TermCode
pub mod View
pub mod TreeFalls
