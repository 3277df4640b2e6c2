pub mod Typed
pub mod Answers
