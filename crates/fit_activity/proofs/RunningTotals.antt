-- Running totals are those of the list.
pub mod Added
pub mod Bounded
pub mod Judged
pub mod Pushed
pub mod Summed
pub mod Timing
