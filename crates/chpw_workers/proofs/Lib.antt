mod TurnLemmas
mod ChainLemmas
mod UndecidedLemmas
pub mod ShiftLemmas
pub mod DeskLemmas
mod FollowLemmas
mod SendLemmas
mod SinkLemmas
