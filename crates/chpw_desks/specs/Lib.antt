pub mod Filled
pub mod Following
pub mod Keeping
pub mod Orders
pub mod ServiceRuns
pub mod Staff
pub mod Tallies
