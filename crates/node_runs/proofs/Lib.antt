mod NodeLemmas
mod ListLemmas
mod AfterLemmas
mod BeginLemmas
mod EndLemmas
pub mod HistoryLemmas
