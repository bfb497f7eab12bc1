pub mod Logs
pub mod Passes
pub mod Guarded
pub mod Faults
pub mod Calls
