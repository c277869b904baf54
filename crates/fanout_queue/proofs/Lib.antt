pub mod Cases
pub mod LeadLemmas
pub mod KeyLemmas
pub mod IndexLemmas
pub mod EntryLemmas
pub mod StepLemmas
pub mod QueueLemmas
