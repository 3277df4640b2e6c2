mod ColumnLaws
mod RowLaws
mod PartLaws
pub mod RowsLaws
mod StripRowsLaws
mod UnderwayLaws
pub mod AnswerLaws
mod BackLaws
pub mod Theorems
