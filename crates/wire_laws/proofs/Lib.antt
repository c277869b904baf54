mod SpelledNumbers
mod SpelledAttributes
mod SpelledRoutes
pub mod SpelledMessages
pub mod LengthLaws
pub mod SaidAgain
pub mod Prepended
