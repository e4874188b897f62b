pub mod Digits
pub mod Bits
pub mod Bytes
pub mod Comparing
pub mod Partials
