pub mod Peers
pub mod FaultText
pub mod Messages
pub mod Acts
pub mod Drafts
pub mod Changes
pub mod Timing
