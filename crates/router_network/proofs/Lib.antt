mod ExternalRows
mod LocalLemmas
mod ReadRows
mod ShownRows
pub mod BranchRows
pub mod ChainShifts
pub mod Counting
pub mod OwnShifts
pub mod KnownRows
pub mod AboveRows
pub mod LossLemmas
pub mod PolicyLemmas
pub mod ProtocolLosses
pub mod QuietSteps
pub mod ReadLemmas
pub mod RedistEdits
pub mod RoomLemmas
pub mod RouteRoom
pub mod RouteSteps
pub mod StepLemmas
mod IntReads
mod ReadStands
