-- What the contracts of the public calls use: the state of a recorder, its answers, and what a crash inside a call may leave.
pub mod Recorder
pub mod After
pub mod Counts
pub mod Answers
pub mod Start
pub mod Recovery
pub mod Windows
pub mod FrozenRecovery
pub mod Resume
pub mod Ride
pub mod Erasing
pub mod FaultCode
pub mod FaultName
pub mod OnMemory
pub mod Frozen
