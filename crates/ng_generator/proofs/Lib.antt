pub mod DrawLemmas
pub mod LimitLemmas
pub mod StepLemmas
pub mod TakeLemmas
