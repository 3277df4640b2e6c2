pub mod Writer
pub mod Answers
