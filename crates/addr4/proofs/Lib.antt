pub mod BlockLemmas
pub mod PrefixOrder
pub mod HalfLemmas
pub mod RankLemmas
pub mod NumberLemmas
pub mod NumberBack
pub mod PartLemmas
mod DigitLemmas
pub mod LastLemmas
mod FirstLemmas
pub mod FrontLemmas
pub mod SharedLemmas
