pub mod CoverLemmas
pub mod OrderLemmas
pub mod DescentLemmas
pub mod MapOrderLemmas
pub mod SearchLemmas
pub mod ListLemmas
pub mod InterestLemmas
pub mod RegisterLemmas
