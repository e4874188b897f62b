pub mod Shapes
pub mod Weaves
