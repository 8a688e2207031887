pub mod Faults
pub mod Kinds
pub mod Side
pub mod Spawned
pub mod System
