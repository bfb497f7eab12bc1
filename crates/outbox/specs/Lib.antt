pub mod FaultText
pub mod Pushes
pub mod Commands
pub mod Resend
pub mod Outbox
pub mod Due
pub mod OutboxListing
