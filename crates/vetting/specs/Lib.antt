pub mod Rules
pub mod Verdicts
