pub mod RibExits
pub mod Exits
pub mod Passing
pub mod Steps
pub mod Laws
