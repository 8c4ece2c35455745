pub mod Entries
pub mod Keytabs
pub mod Answers
pub mod Written
pub mod Laws
