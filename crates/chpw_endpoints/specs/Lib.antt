pub mod Endpoints
pub mod Peers
