pub mod ComparingLemmas
pub mod CopyLemmas
pub mod KeysLemmas
pub mod NumberLemmas
pub mod Pbkdf2Lemmas
pub mod PiecesLemmas
pub mod SealingLemmas
