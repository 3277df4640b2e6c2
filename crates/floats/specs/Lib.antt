pub mod Floats
pub mod Widening
