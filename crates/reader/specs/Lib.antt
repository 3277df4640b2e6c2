pub mod Cursor
pub mod Answers
