pub mod BuildPlan
pub mod Descriptor
pub mod Order
pub mod Targets
