pub mod Documents
pub mod Faults
pub mod Images
pub mod Paths
pub mod RunPart
pub mod Target
