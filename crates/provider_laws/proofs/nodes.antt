pub mod ActSteps
pub mod LineSteps
pub mod NodeSteps
pub mod NodeLaws
pub mod Acknowledging
pub mod Spelled
