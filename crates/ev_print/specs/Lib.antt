pub mod Styles
pub mod Canon
pub mod Texts
pub mod ReadBack
pub mod inner
