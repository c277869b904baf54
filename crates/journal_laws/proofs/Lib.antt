mod Spans
mod NumberTexts
mod PathTexts
mod AttrsTexts
mod RowTexts
pub mod ValueTexts
mod ShortNumbers
mod ShortAttrs
pub mod ShortLines
pub mod TextWalks
mod WalksBack
pub mod FamilyTexts
pub mod LawfulTexts
pub mod ReadAttrs
pub mod FilteredRoutes
pub mod PrintedFalls
pub mod PrintedRows
pub mod PrintedWays
pub mod PrintedLines
pub mod DeclaredPeers
pub mod PrintedPeers
pub mod ShownRows
pub mod PrintedHops
