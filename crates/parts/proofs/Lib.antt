pub mod Ordering
pub mod Joining
