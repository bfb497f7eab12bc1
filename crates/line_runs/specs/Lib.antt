pub mod Echo
pub mod Lines
pub mod Numbered
pub mod Outcome
pub mod Run
