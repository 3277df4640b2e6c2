pub mod Date
pub mod Grammar
pub mod Reading
