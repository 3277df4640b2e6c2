pub mod Bits
pub mod Strip
pub mod Answers
pub mod Calls
