pub mod Carrying
pub mod Posting
