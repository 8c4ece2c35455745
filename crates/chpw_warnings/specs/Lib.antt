pub mod Settings
pub mod Rules
pub mod Lines
pub mod Unread
