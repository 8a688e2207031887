pub mod Catalog
pub mod Descriptor
pub mod OrderFile
pub mod Places
