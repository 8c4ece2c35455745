pub mod FittingLemmas
pub mod LengthLemmas
pub mod RequestLemmas
