pub mod ItemLaws
mod WayOut
mod WayBack
pub mod MixedTrip
