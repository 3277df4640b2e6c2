mod FirstsLaws
pub mod OctetsLaws
