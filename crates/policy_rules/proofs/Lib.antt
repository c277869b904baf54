pub mod GrammarLemmas
mod GroupRanges
pub mod RangeLemmas
pub mod PassLemmas
pub mod KeptLemmas
pub mod OneResult
pub mod VerdictLemmas
pub mod AcceptLemmas
