pub mod Event
pub mod Declarations
pub mod Words
pub mod Events
pub mod WellFormed
pub mod FileEvents
pub mod FileLaws
