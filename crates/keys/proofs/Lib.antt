pub mod Offsets
pub mod Table
pub mod Places
pub mod Differing
pub mod Lexical
pub mod Keeping
pub mod Windows
