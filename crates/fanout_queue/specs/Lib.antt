pub mod Queues
pub mod Readers
pub mod Index
pub mod Entries
pub mod Places
pub mod Laws
