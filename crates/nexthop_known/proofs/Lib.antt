pub mod HopLemmas
pub mod TieLemmas
pub mod KnownLemmas
pub mod CountLemmas
pub mod AgreeLemmas
pub mod StaleLemmas
pub mod TallyLemmas
