pub mod Standing
pub mod Sent
pub mod Urls
