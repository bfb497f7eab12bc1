pub mod Opening
pub mod Keeping
pub mod InFiles
