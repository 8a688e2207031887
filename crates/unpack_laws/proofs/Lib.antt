pub mod SlicedLaws
pub mod UnpackedLaws
pub mod VerifiedLaws
