pub mod Views
pub mod Printable
pub mod Laws
pub mod Served
