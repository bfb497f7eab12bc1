pub mod Records
pub mod Refused
