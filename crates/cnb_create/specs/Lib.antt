pub mod Apart
pub mod Creates
pub mod Defined
pub mod Headline
pub mod Refusals
pub mod Report
pub mod Surroundings
