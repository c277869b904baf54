pub mod Keys
pub mod Steps
pub mod Places
pub mod Laws
pub mod Leaders
