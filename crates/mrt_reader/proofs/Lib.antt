pub mod KeptLemmas
pub mod TakenLemmas
pub mod FileLemmas
pub mod AnswerLemmas
pub mod OrderLemmas
pub mod OneText
pub mod OpeningLemmas
