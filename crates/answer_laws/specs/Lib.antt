pub mod Nodes
pub mod Decisions
pub mod Answers
