pub mod MergeLemmas
