pub mod Slots
pub mod Kept
pub mod Fields
pub mod Tables
pub mod Lent
