pub mod MomentLemmas
pub mod LineLemmas
pub mod AddressLemmas
