pub mod Parts
pub mod Days
pub mod PartLaws
pub mod Tariffs
