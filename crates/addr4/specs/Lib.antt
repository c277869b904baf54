pub mod Blocks
pub mod Prefixes
pub mod Families
pub mod Hosts
pub mod Halves
pub mod Places
pub mod Texts
pub mod Fronts
