pub mod RestLemmas
pub mod HearLemmas
