mod WidthLaws
pub mod AnswerLaws
pub mod WriteLaws
pub mod FlushLaws
pub mod ToldLaws
