pub mod OwnLemmas
pub mod BranchLemmas
pub mod LinkLemmas
pub mod MergeLemmas
pub mod StepLemmas
pub mod LookupLemmas
pub mod LawLemmas
pub mod CountLemmas
pub mod NewLemmas
pub mod TreeParts
pub mod RestLemmas
pub mod RegionLemmas
pub mod HeldLemmas
mod OverLemmas
