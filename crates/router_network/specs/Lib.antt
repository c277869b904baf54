pub mod Reads
pub mod Informed
