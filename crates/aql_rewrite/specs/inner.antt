pub mod Applications
pub mod NodeViews
pub mod Same
