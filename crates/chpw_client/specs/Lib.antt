pub mod Configured
pub mod Lines
pub mod Questions
pub mod Requests
pub mod Words
