pub mod Pasts
pub mod Bills
pub mod Begun
pub mod Sent
