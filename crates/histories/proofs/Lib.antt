pub mod Lists
pub mod WovenLists
pub mod Excluding
