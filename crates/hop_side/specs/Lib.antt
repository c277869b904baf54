pub mod Resolvers
pub mod Tasks
pub mod Steps
pub mod Laws
