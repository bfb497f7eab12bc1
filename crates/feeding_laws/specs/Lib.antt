pub mod Fed
pub mod Feeding
