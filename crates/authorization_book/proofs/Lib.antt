pub mod Indexing
pub mod Roomed
pub mod DueNumbers
pub mod Changes
