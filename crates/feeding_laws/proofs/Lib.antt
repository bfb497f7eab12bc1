mod Chain
mod Ends
pub mod Exactly
pub mod Fed
mod Left
mod Members
mod Parts
