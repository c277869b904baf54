pub mod Passed
pub mod Walks
pub mod Split
pub mod Turns
pub mod Left
pub mod Laws
