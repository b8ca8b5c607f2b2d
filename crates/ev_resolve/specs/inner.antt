pub mod Scopes
pub mod Marked
pub mod Inners
pub mod Unknown
pub mod BareView
pub mod BareCode
pub mod BareFalls
pub mod Places
