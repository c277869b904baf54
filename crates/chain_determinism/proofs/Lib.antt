pub mod EntryLemmas
pub mod FrontLemmas
pub mod WayLemmas
pub mod StageLemmas
pub mod PeerLemmas
pub mod TreeLemmas
