pub mod Splits
pub mod Splitting
pub mod Kept
pub mod Tables
pub mod Laws
