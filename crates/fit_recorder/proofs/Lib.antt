-- A folder for each theorem. The public lemmas are those that proofs of other crates cite.
pub mod Commit
mod BodyChecksums
mod SameBytes
mod Start
pub mod FinishedFile
pub mod RecoveredList
mod ResumedRide
mod ErasedFiles
pub mod Windowed
mod ChangedBytes
mod CountedBytes
