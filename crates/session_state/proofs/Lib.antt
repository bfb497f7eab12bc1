pub mod PastLemmas
pub mod CreditIds
