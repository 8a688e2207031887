pub mod BuildPlans
