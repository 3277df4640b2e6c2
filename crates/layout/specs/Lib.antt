pub mod Layout
pub mod Bytes
pub mod Plan
pub mod Check
pub mod Known
pub mod Answers
pub mod Steps
pub mod Take
