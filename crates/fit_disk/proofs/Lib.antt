-- Public are the lemmas that proofs of the crates above cite: a run of calls extended by one call, and what a power cut leaves.
pub mod Moments
pub mod Leaving
pub mod Sound
pub mod Numbers
mod Cycling
mod Putting
mod Joining
mod MemoryFiles
mod Records
mod Reading
