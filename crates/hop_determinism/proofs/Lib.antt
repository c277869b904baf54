pub mod ListLemmas
pub mod RegisterLemmas
pub mod KnownLemmas
pub mod ResolverLemmas
pub mod TurnLemmas
pub mod SideLemmas
