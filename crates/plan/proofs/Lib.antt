pub mod Decoding
pub mod Reading
pub mod RunLaws
pub mod ValueLaws
mod FieldReadLaws
mod CompiledLaws
pub mod Theorems
