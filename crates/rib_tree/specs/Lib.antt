pub mod Branches
pub mod BranchSteps
pub mod Trees
pub mod Falls
pub mod Steps
pub mod Merges
pub mod Laws
