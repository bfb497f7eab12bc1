pub mod Lists
pub mod Runs
pub mod Joining
pub mod NodeRuns
pub mod BodyKinds
pub mod Acts
