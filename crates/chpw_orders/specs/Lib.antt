pub mod Answers
pub mod Replacing
pub mod Rereading
