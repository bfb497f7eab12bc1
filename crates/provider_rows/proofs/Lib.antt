pub mod Finding
pub mod KeepingSound
pub mod KeepingTimes
pub mod KeepingRows
pub mod Listings
pub mod RowChanges
pub mod RowRooms
pub mod TimeRooms
