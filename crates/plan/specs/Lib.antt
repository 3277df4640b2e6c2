pub mod Run
pub mod FieldReads
