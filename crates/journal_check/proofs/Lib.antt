pub mod EntryLemmas
pub mod KeyLemmas
pub mod StepLemmas
pub mod DemandLemmas
pub mod WordLemmas
pub mod JudgeLemmas
pub mod InkLemmas
pub mod PrefixBack
mod PrefixPrinted
pub mod LineBack
pub mod OneAnswer
