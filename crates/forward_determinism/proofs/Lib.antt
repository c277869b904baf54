pub mod SplitLemmas
pub mod FallLemmas
pub mod TurnLemmas
pub mod ListLemmas
