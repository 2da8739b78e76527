pub mod FlagsLemmas
pub mod PlaceLemmas
