pub mod Clocks
pub mod Replies
pub mod Undecided
pub mod Turns
pub mod Shifts
pub mod Desks
pub mod Sinks
