pub mod Keepers
pub mod Stored
pub mod Transactions
