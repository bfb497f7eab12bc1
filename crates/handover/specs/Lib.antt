pub mod Owed
pub mod FaultText
pub mod Cdrs
pub mod Inbox
pub mod InboxListing
