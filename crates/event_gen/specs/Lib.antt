pub mod Draws
pub mod Events
pub mod Lines
pub mod Readings
