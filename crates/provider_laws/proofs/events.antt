pub mod Through
pub mod Parts
pub mod Doing
