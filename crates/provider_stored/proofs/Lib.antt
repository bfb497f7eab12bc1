pub mod Keys
pub mod Looked
pub mod Spoiled
pub mod Fit
pub mod Referred
pub mod Made
pub mod Told
