pub mod Lookups
pub mod Sessions
pub mod WordLemmas
pub mod WellFormedLemmas
pub mod DeclarationLemmas
pub mod FileLemmas
pub mod LawLemmas
