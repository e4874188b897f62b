pub mod Course
pub mod Reading
pub mod Theorems
