pub mod Grounds
pub mod Meaning
