pub mod Entries
pub mod Stanzas
pub mod Tables
pub mod Typed
pub mod Writable
