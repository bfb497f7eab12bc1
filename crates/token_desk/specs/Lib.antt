pub mod Tokens
pub mod TypeOrder
pub mod Stored
pub mod Putting
pub mod Swipes
pub mod References
pub mod Authorizing
pub mod FaultText
