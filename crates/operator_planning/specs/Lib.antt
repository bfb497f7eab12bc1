pub mod Requests
pub mod Planned
pub mod Bills
pub mod Credits
pub mod Happenings
pub mod Answering
