pub mod FaultText
pub mod Stored
pub mod Queue
pub mod Room
pub mod Listing
pub mod Due
pub mod Calls
