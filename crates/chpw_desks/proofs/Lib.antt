pub mod OrderLemmas
pub mod ServiceRunLemmas
pub mod StaffLemmas
