pub mod Same
pub mod SignedLaws
