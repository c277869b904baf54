pub mod TurnLemmas
pub mod CandidateLemmas
mod FilterLemmas
pub mod EditLemmas
