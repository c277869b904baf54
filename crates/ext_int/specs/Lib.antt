pub mod Fibs
pub mod Laws
