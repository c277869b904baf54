pub mod Maps
pub mod Entries
pub mod Readings
pub mod Judged
pub mod Walked
pub mod Laws
