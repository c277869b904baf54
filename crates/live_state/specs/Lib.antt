pub mod Messages
pub mod Declared
pub mod Lives
pub mod Decided
pub mod Reflected
pub mod Laws
pub mod Heard
pub mod Refreshes
