pub mod Rows
pub mod Changes
pub mod InOrder
pub mod Turns
pub mod Laws
