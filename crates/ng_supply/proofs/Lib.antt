pub mod MapLemmas
pub mod AreaLemmas
pub mod StockLemmas
