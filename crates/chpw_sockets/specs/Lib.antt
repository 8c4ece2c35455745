pub mod Addresses
pub mod Deciding
pub mod Faults
pub mod Newcomers
pub mod Places
pub mod Replying
pub mod Sending
pub mod Shares
