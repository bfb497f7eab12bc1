pub mod Costs
pub mod Credits
pub mod Versions
pub mod Pasts
pub mod Records
pub mod Resuming
pub mod FaultText
