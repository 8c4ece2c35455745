pub mod Laws
pub mod RecordKeys
pub mod Records
