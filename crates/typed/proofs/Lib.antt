pub mod SameLaws
mod WrittenLaws
mod ReadLaws
pub mod Theorems
