pub mod ReadingLemmas
mod UpdateLemmas
pub mod ToldLemmas
pub mod AloneLemmas
mod TextLemmas
mod BothLemmas
mod RouterLemmas
mod BeginLemmas
