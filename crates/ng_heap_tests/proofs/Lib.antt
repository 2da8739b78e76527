pub mod AtTestLemmas
pub mod TestLemmas
