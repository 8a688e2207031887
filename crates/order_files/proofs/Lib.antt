pub mod Behind
pub mod FolderSteps
pub mod Lengths
pub mod Misuse
pub mod PlaceLemmas
pub mod ReadSteps
