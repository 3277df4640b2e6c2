pub mod CountLaws
pub mod BytesLaws
mod CountExamples
pub mod PlaceLaws
