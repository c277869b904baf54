pub mod Records
pub mod Fields
pub mod Kept
pub mod Lines
pub mod Sessions
pub mod Files
pub mod Sources
pub mod Order
