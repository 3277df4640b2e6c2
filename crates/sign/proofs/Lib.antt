pub mod SignedLaws
pub mod TopBitLaws
pub mod FlipLaws
pub mod CastLaws
