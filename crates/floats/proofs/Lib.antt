pub mod Nans
pub mod FloatLaws
pub mod WideningLaws
pub mod WideningNumbers
