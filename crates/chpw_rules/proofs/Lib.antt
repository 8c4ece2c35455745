pub mod AscendingLemmas
pub mod DistinctLemmas
pub mod NameLemmas
pub mod NameOrderLemmas
pub mod PatternLemmas
