pub mod Sizes
pub mod Records
pub mod Lines
