-- Definitions for private functions and proofs only.
pub mod Step
pub mod Reader
pub mod Seen
