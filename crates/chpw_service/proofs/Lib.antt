pub mod FaultLemmas
pub mod RaisedLemmas
pub mod RunningLemmas
pub mod StatusLemmas
pub mod WholeRunLemmas
