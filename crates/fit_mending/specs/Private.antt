-- What only private functions and proofs need.
pub mod Passed
pub mod Counting
pub mod Cut
pub mod Adding
pub mod Looking
