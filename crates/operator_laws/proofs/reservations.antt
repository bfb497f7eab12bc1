pub mod Marks
pub mod Making
