pub mod Lists
pub mod Delivering
pub mod Names
pub mod Bringing
pub mod Steps
pub mod Asking
