pub mod Answers
pub mod Setups
