pub mod ChangeLemmas
pub mod LengthLemmas
pub mod ListLemmas
pub mod PartsLemmas
pub mod RecordLemmas
pub mod VersionLemmas
