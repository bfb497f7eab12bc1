pub mod Answering
pub mod Given
