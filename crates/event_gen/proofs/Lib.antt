mod DrawLemmas
mod LineLemmas
mod TextLemmas
mod OctetLemmas
mod WordLemmas
mod ReadingLemmas
mod OpeningLemmas
mod LawLemmas
