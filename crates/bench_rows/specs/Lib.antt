pub mod Live
pub mod Tables
