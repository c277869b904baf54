pub mod Known
pub mod Cuts
pub mod Pieces
pub mod Walks
pub mod GoingOn
pub mod Readings
