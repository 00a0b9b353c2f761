-- Each call of a ride is a step of its history, and its answers are a whole one.
pub mod Claims
pub mod Idle
pub mod Riding
pub mod Left
pub mod NeverFull
pub mod Begun
pub mod Moments
pub mod Runs
pub mod Plain
pub mod Replies
