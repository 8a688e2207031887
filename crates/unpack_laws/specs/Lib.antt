pub mod Sliced
pub mod Unpacked
pub mod Verified
