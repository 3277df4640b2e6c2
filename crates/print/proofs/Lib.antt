pub mod DigitLaws
pub mod StoreLaws
pub mod BackLaws
