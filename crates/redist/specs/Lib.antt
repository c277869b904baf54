pub mod Protocols
pub mod Local
pub mod Laws
