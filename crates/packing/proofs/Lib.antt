mod PartLaws
pub mod BytesLaws
mod EightBytesLaws
mod StoredLaws
pub mod BelongsLaws
pub mod PutLaws
pub mod StoryLaws
mod HeldLaws
mod PutWordLaws
mod FrontLaws
mod StretchLaws
mod ChunkLaws
pub mod PutBytesLaws
