pub mod Reads
pub mod Steps
pub mod Planning
pub mod Entries
