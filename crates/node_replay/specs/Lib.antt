pub mod Replayed
pub mod Answers
