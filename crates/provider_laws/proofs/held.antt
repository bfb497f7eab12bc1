pub mod Sessions
pub mod Cdrs
pub mod Settling
