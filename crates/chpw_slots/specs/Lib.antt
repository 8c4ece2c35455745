pub mod Counting
pub mod Longest
pub mod Orders
pub mod Shares
pub mod Slots
pub mod Waiting
