pub mod Planned
pub mod Answering
pub mod Making
pub mod Versions
