pub mod Exits
pub mod Steps
pub mod Tasks
pub mod Laws
