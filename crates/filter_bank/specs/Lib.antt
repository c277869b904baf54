pub mod Filtered
pub mod Walks
pub mod Laws
pub mod Outgoing
pub mod OutLaws
