pub mod CursorLaws
pub mod AnswerLaws
pub mod ReadLaws
pub mod RemainderLaws
pub mod EndLaws
pub mod AlikeLaws
pub mod ToldLaws
