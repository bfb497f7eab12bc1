pub mod Staying
pub mod Carrying
pub mod Together
pub mod InMemory
