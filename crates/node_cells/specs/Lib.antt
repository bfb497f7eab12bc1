pub mod Histories
pub mod Cells
