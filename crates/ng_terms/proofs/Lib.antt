pub mod HistoryLemmas
pub mod LiveLemmas
pub mod ZeroLemmas
