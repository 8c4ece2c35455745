pub mod FaultLemmas
pub mod FittingLemmas
pub mod NewJournalLemmas
pub mod OpeningLemmas
