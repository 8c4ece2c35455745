pub mod Ascending
pub mod Fitting
pub mod Limits
pub mod Names
pub mod Passwords
pub mod Patterns
pub mod Prefixes
pub mod Rules
