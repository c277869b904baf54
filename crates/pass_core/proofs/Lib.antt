pub mod SplitLemmas
pub mod TurnLemmas
pub mod LeftLemmas
