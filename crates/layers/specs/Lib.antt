pub mod Layers
pub mod LayerLaw
pub mod WaysBack
pub mod WayBackLaw
pub mod Seals
pub mod Viewed
pub mod ViewLaw
