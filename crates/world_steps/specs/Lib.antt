pub mod World
pub mod Network
pub mod Steps
pub mod Traces
pub mod Laws
pub mod Deliveries
