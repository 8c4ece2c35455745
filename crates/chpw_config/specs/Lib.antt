pub mod Faults
pub mod Kdc
pub mod Kinds
pub mod Rows
pub mod Seen
pub mod Settings
