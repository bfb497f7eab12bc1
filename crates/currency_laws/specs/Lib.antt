pub mod Currencies
pub mod Owing
