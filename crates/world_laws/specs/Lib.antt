pub mod Nodes
pub mod Safe
pub mod Later
pub mod Agree
pub mod Linked
pub mod Laws
