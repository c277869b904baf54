pub mod Rules
pub mod Words
pub mod Grammar
pub mod Ranges
pub mod Judged
pub mod Verdicts
pub mod Laws
