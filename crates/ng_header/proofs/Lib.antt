pub mod CycleLemmas
pub mod HeaderLemmas
pub mod TailLemmas
