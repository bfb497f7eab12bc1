pub mod OwnNumbers
pub mod SameNumbers
pub mod CreditIds
pub mod RecordNumbers
pub mod Repeated
pub mod Growing
