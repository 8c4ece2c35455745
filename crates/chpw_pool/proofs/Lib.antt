pub mod SendLemmas
pub mod WorkerLemmas
