pub mod Laws
pub mod AsNode
pub mod Held
pub mod Commands
pub mod References
