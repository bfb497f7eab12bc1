pub mod Given
pub mod Turns
pub mod Needs
pub mod Faults
pub mod TurnFaults
pub mod Reached
pub mod Progress
