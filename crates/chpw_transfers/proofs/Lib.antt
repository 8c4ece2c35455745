pub mod ControlLemmas
pub mod DatagramLemmas
pub mod ListLemmas
pub mod NotedLemmas
pub mod ReplyLemmas
pub mod RoundLemmas
pub mod TransferLemmas
