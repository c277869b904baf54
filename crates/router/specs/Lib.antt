pub mod Ties
pub mod Networks
pub mod Told
pub mod Steps
pub mod Codes
pub mod Laws
