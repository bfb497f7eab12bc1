pub mod Staying
pub mod Owing
