pub mod QueueLemmas
pub mod ChainLemmas
pub mod ExitLemmas
