pub mod SessionLemmas
pub mod LeastLemmas
mod DecidedLemmas
mod ReflectedLemmas
pub mod UpdateLemmas
pub mod AdmittedLemmas
pub mod LongestLemmas
pub mod ForwardingLemmas
