-- What is replied and printed.
pub mod Played
pub mod Replayed
pub mod Recorded
pub mod Heard
pub mod InTurn
pub mod Kept
pub mod Lost
