pub mod Entries
pub mod Weaving
pub mod Causes
pub mod Laws
