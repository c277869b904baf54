mod SessionLinks
mod BeyondLemmas
pub mod RefreshLemmas
mod SaidLemmas
mod LookupLemmas
mod TurnLemmas
mod PassLemmas
mod LawLemmas
