pub mod HeldSearch
pub mod FreePlaces
pub mod Reserving
pub mod Bodies
pub mod Lines
