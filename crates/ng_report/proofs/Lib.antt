pub mod CallLemmas
pub mod CallerLemmas
pub mod HexLemmas
pub mod KindLemmas
pub mod ReportLemmas
pub mod SummaryLemmas
