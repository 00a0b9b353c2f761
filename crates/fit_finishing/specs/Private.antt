-- What only private functions and proofs need.
pub mod Effort
pub mod Ride
