pub mod AnswerLaws
mod MessageLaws
mod RoomLaws
mod PackLaws
mod RowsLaws
mod CheckLaws
pub mod ApartLaws
pub mod Theorems
