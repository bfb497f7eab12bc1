pub mod FaultText
pub mod Flags
pub mod Indexes
pub mod Positions
pub mod Sites
