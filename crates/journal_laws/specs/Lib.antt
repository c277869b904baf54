pub mod Printed
pub mod TextLinks
pub mod Standing
pub mod Peers
pub mod FamilyLines
pub mod Laws
