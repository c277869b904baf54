pub mod Branches
pub mod Lineups
pub mod Wins
pub mod Laws
pub mod Contests
