pub mod Maps
pub mod Standing
pub mod Keeping
pub mod Putting
