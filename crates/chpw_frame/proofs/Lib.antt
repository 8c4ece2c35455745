pub mod Tests
pub mod StreamLemmas
pub mod PieceLemmas
pub mod CutLemmas
pub mod FramingLemmas
pub mod ChangeLemmas
pub mod Worked
