pub mod State
pub mod Seen
pub mod Works
pub mod Deliveries
