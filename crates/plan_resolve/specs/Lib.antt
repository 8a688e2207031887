pub mod Choices
pub mod Examples
pub mod Plan
pub mod Prefixes
pub mod Pruning
pub mod Resolution
pub mod Trials
