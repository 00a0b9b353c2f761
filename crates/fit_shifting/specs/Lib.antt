pub mod Times
pub mod Moved
pub mod Stuck
pub mod Start
pub mod Shifted
pub mod Private
