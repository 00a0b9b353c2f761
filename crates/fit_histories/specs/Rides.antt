-- A ride over any disk: what is known of it, what it replies, its state in a history, and what a command leaves of its disk.
pub mod Ride
pub mod Replies
pub mod Standing
pub mod NeverFull
pub mod Left
pub mod Goes
pub mod Begun
pub mod Moments
