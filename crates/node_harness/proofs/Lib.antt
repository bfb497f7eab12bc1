pub mod InOrder
pub mod EachOne
pub mod Openings
