pub mod PutLemmas
mod StepLemmas
mod TurnLemmas
mod ReachLemmas
mod TaskLemmas
mod HeldLemmas
pub mod LawLemmas
pub mod FewLemmas
