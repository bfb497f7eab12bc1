pub mod Doing
pub mod Entering
