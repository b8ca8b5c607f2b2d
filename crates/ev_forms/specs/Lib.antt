pub mod Base
pub mod Forms
pub mod Connectives
pub mod Binders
