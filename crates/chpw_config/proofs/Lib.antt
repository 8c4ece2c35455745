pub mod FitLemmas
pub mod GivesLemmas
pub mod KdcLemmas
pub mod KindLemmas
pub mod KvnoLemmas
pub mod SeenLemmas
pub mod WalkLemmas
