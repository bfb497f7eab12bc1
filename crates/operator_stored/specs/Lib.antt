pub mod Bills
pub mod Causes
pub mod Bad
pub mod Whole
pub mod Making
pub mod Placing
