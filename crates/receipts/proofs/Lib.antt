pub mod Marking
pub mod Counting
pub mod Excluding
