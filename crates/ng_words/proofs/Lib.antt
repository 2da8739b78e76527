pub mod ListLemmas
pub mod ClapLemmas
pub mod WordLemmas
