pub mod Rides
pub mod Messages
pub mod Files
pub mod Private
