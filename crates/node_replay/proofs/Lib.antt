pub mod Leading
pub mod Staying
