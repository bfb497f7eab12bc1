pub mod Readings
pub mod Changing
pub mod Held
pub mod Steps
pub mod Restarts
pub mod Telling
pub mod Numbers
