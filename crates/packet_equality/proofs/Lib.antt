pub mod Same
pub mod SameValues
pub mod SameRecords
pub mod SamePackets
pub mod SameEvents
