pub mod FibLemmas
