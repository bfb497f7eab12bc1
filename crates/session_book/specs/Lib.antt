pub mod Stored
pub mod Records
pub mod Kept
pub mod Numbers
