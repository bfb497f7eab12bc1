pub mod Gathering
pub mod Spelling
