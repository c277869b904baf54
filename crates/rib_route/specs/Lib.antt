pub mod Rows
pub mod Ifaces
pub mod Distances
pub mod Forwarding
