pub mod Waits
pub mod Indexed
pub mod Due
pub mod Laws
