pub mod Places
pub mod Histories
pub mod Tracing
