pub mod Theorems
mod Examples
pub mod TripLaws
pub mod PieceLaws
pub mod SameLaws
