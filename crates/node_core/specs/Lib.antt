pub mod States
pub mod Inputs
pub mod Works
pub mod Members
pub mod Laws
