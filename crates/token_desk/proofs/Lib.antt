pub mod Keyed
pub mod Lookups
pub mod Numbers
pub mod Listed
