pub mod Answering
pub mod ReadPlaces
