pub mod Bases
pub mod Rebased
pub mod Rebases
pub mod Refusals
pub mod Report
pub mod Shows
