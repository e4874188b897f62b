pub mod Growth
pub mod Routes
pub mod Paths
pub mod Orders
pub mod Plans
pub mod Writes
pub mod Commits
pub mod Theorems
