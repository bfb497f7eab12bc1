pub mod Living
pub mod Merging
pub mod Feeding
pub mod Telling
