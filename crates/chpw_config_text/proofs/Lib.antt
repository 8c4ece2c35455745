pub mod DepthLemmas
pub mod EntryLemmas
pub mod ListLemmas
pub mod NameLemmas
pub mod RowLemmas
pub mod SettingsLemmas
pub mod TextLemmas
