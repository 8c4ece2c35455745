pub mod Counters
pub mod Names
pub mod Notices
pub mod Noting
