pub mod AskingLemmas
pub mod CheckLemmas
