pub mod Merging
pub mod Forwards
pub mod Laws
