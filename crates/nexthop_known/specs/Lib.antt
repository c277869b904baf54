pub mod Hops
pub mod Ties
pub mod Counts
pub mod Agreement
pub mod Laws
