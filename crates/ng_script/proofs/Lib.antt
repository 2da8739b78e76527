pub mod NumberLemmas
pub mod NameLemmas
pub mod PlaceLemmas
pub mod FormLemmas
pub mod PartLemmas
pub mod ReadLemmas
