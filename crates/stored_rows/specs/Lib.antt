pub mod Faults
pub mod Given
pub mod Records
pub mod Turns
