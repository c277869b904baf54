pub mod LineupLemmas
pub mod BestLemmas
pub mod LawLemmas
pub mod Parts
pub mod Kept
pub mod KnowLemmas
pub mod CountLemmas
