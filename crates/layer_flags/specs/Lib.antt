pub mod Export
pub mod Flags
pub mod Restore
