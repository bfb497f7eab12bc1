pub mod RowSearch
pub mod Going
pub mod Numbers
pub mod Once
pub mod Bodies
pub mod HandedOver
pub mod Accepted
