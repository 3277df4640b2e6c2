pub mod DateLaws
mod SixthLaws
pub mod Theorems
pub mod Examples
pub mod GrammarLaws
mod MagnitudeLaws
mod NumberLaws
pub mod SpelledLaws
pub mod ReadLaws
mod PlaceLaws
pub mod AnswerLaws
