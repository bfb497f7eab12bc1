pub mod Places
pub mod Needing
pub mod Reaching
pub mod Waiting
pub mod Sweeping
pub mod Turning
pub mod Excluding
pub mod Telling
