pub mod BitsLaws
pub mod FitLaws
mod ListLaws
pub mod AnswerLaws
pub mod PackedLaws
pub mod MidwayLaws
mod UnderwayLaws
pub mod StripLaws
mod CallLaws
pub mod Theorems
