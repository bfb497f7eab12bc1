pub mod Orders
pub mod Keyed
pub mod Keeping
pub mod Bills
pub mod OwnIds
pub mod Listed
