pub mod HeaderLaws
mod LinesLaws
mod PackLaws
pub mod ListLaws
pub mod AnswerLaws
pub mod GrammarLaws
pub mod BadLineLaws
pub mod LongestLaws
pub mod Theorems
