pub mod InputLemmas
pub mod CauseLemmas
pub mod OpenLemmas
pub mod UnrefusedLemmas
pub mod EndLemmas
pub mod DrillLemmas
pub mod JobLemmas
