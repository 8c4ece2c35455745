pub mod FaultLemmas
pub mod ReportLemmas
pub mod RowLemmas
