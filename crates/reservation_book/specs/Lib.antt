pub mod Rows
pub mod Places
pub mod Orders
pub mod Listed
pub mod Tokens
pub mod Refusals
pub mod Calls
pub mod FaultText
