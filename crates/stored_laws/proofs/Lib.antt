pub mod Openings
pub mod OperatorSteps
pub mod Operators
pub mod ProviderSteps
pub mod Providers
pub mod Starting
pub mod TakingBack
