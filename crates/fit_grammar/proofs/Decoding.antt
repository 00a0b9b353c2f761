-- Decoding a file, for the clauses of `decode_file`: which refusal bytes have, and that they are at most one file.
pub mod Alignment
pub mod Headers
pub mod Quiet
pub mod Fronts
pub mod Blocked
pub mod Refused
pub mod Accepted
pub mod Closed
pub mod HeaderRefused
pub mod HeaderRead
pub mod Reached
pub mod Longer
pub mod Shown
pub mod WantOfMemory
pub mod OneValue
