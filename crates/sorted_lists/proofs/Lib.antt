pub mod Places
pub mod Search
pub mod Parts
pub mod Seen
