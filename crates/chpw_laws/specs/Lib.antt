pub mod OldPasswords
pub mod Adoptions
pub mod Restarts
pub mod WithoutUpdates
pub mod Messages
pub mod Seconds
pub mod RowNumbers
pub mod RefusalNumbers
