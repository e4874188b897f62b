pub mod Reading
pub mod Stepping
pub mod Climbing
pub mod Entering
