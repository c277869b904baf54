pub mod SplitLemmas
pub mod TableLemmas
pub mod MergedLemmas
