pub mod Faults
pub mod Notifications
pub mod Serving
pub mod SocketAddresses
pub mod Status
