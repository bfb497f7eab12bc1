pub mod Begun
pub mod Differ
pub mod Ids
pub mod PriceLaws
pub mod Turns
