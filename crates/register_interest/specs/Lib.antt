pub mod Width
pub mod Covers
pub mod Search
pub mod Interests
pub mod Registers
pub mod Matches
pub mod Laws
