pub mod Attending
pub mod Engines
pub mod Pools
pub mod Reports
pub mod Tasks
