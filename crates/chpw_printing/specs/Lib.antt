pub mod Quoting
pub mod Lines
pub mod Times
