mod DepthLemmas
pub mod OrderLemmas
mod PutLemmas
pub mod RowLemmas
pub mod SendLemmas
