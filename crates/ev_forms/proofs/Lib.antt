pub mod Views
pub mod FormViews
