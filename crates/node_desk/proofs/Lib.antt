pub mod Going
pub mod Calling
