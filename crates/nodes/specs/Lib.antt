pub mod Shapes
pub mod Trees
pub mod Tables
pub mod Faith
