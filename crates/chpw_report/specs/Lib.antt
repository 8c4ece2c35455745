pub mod Configurations
pub mod Held
pub mod Reports
