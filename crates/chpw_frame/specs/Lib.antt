pub mod Framing
pub mod Faults
pub mod Stream
pub mod Receiving
pub mod Cuts
pub mod ChangeData
pub mod Asked
pub mod Laws
