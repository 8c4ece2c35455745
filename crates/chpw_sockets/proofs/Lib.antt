pub mod PlaceLemmas
pub mod PostLemmas
pub mod RunLemmas
pub mod ShareLemmas
pub mod StepLemmas
