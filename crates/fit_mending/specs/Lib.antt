-- What is kept of damaged bytes, other rides in what is left out, what is known by another file, and where chained files end; what only private functions and proofs need.
pub mod Pieces
pub mod Chained
pub mod Found
pub mod Others
pub mod Known
pub mod Private
pub mod Form
pub mod Moves
pub mod Times
pub mod Judged
pub mod Steady
pub mod Reading
