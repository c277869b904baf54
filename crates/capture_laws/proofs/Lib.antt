pub mod ReadingLemmas
pub mod AcceptLemmas
