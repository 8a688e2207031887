pub mod CheckOutcome
pub mod Checks
pub mod Choosing
pub mod DetectsRecorded
pub mod Outcome
pub mod Reading
pub mod Refusals
pub mod Report
