pub mod Replacing
pub mod Unlocking
pub mod Taking
pub mod Moving
pub mod Holding
pub mod Acknowledging
pub mod Answering
