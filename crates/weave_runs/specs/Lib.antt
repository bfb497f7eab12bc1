pub mod Histories
pub mod Parties
pub mod Steps
pub mod Refusals
pub mod Accusations
pub mod Networks
pub mod Outputs
