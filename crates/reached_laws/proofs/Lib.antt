pub mod Records
pub mod Refusing
