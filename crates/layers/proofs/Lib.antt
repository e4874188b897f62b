pub mod Showing
pub mod Viewing
