pub mod Saved
pub mod Sound
pub mod Stored
pub mod Texts
