pub mod QuotingLemmas
pub mod LinesLemmas
pub mod TimeLemmas
