pub mod RowLemmas
pub mod ChangeLemmas
pub mod TurnLemmas
pub mod InOrderLemmas
pub mod MapLemmas
pub mod WalkLemmas
