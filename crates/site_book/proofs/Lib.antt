pub mod Apart
pub mod Ids
pub mod Indexing
pub mod Finding
pub mod Filling
pub mod Marking
pub mod Remarking
pub mod Trees
