-- A folder for each theorem. Public are the lemmas that proofs of the crates above cite.
pub mod RunningTotals
pub mod Spelling
pub mod OneList
pub mod FinishedActivity
mod Examples
