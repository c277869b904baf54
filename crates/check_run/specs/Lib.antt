pub mod Lines
pub mod Runs
pub mod Walking
pub mod Stages
pub mod Answers
