pub mod Answers
pub mod Progress
