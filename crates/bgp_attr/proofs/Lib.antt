pub mod FrontLemmas
pub mod WordLaws
pub mod FrontLaws
pub mod HasLaws
pub mod MarkLaws
pub mod LentLaws
