pub mod Lists
pub mod OpeningSetups
pub mod PlannedInputs
pub mod Doing
pub mod MadeAgain
pub mod Members
