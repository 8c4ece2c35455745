pub mod FieldLemmas
pub mod RecordLemmas
pub mod WrittenLemmas
pub mod FileLemmas
pub mod SoundLemmas
pub mod SoundFileLemmas
