pub mod Forms
pub mod Terms
pub mod Changes
pub mod Laws
