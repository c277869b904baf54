pub mod PutLemmas
pub mod LinkLemmas
pub mod CountLemmas
mod ChainLemmas
mod StepLemmas
pub mod PlaceLemmas
pub mod TaskLemmas
mod HeldLemmas
pub mod WeldLemmas
pub mod LawLemmas
