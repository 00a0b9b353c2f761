pub mod Fields
-- The entries of a recording, the rules for them, what they add up to, and their running totals.
pub mod Table
pub mod Recording
pub mod Refusal
pub mod RefusalName
pub mod Timer
pub mod Stretch
pub mod RunningTotals
pub mod Frozen
