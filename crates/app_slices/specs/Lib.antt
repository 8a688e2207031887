pub mod Items
pub mod Matching
pub mod Spelling
pub mod Slots
pub mod Slices
pub mod Cutting
pub mod Laying
pub mod Listing
