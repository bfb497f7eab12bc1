pub mod Messages
pub mod NodeSteps
pub mod NodeLaws
