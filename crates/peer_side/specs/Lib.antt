pub mod Peers
pub mod Steps
pub mod Laws
