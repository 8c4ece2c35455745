pub mod AnswerLemmas
pub mod ConnectionLemmas
pub mod EndingLemmas
pub mod LineLemmas
pub mod SeatLemmas
pub mod TakenOrderLemmas
pub mod CallerLemmas
