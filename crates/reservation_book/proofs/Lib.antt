pub mod Orders
pub mod Relisting
pub mod Rooms
pub mod Finding
pub mod RowLists
pub mod ExpiryFront
pub mod CallRuns
