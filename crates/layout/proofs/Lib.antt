pub mod Puts
pub mod LayoutLaws
pub mod DecodeLaws
pub mod CheckLaws
mod CompileLaws
mod PassLaws
mod SeamLaws
mod AnswerLaws
pub mod StepLaws
mod SizeLaws
pub mod Theorems
pub mod TakeLaws
