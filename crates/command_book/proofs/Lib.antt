pub mod Cases
pub mod Queued
pub mod Roomed
pub mod RowChanges
pub mod Listed
pub mod DueFront
pub mod CallRuns
