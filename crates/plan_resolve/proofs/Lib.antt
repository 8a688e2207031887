pub mod ChoiceLemmas
pub mod LargestLemmas
pub mod NearLemmas
pub mod PlanLemmas
pub mod PrefixLemmas
pub mod PruningLemmas
pub mod ResolutionLemmas
