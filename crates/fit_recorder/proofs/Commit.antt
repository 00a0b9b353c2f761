-- Writing and committing entries: at each moment what was committed stays.
pub mod Kept
pub mod Slots
pub mod Files
pub mod Page
pub mod Spelling
pub mod Counting
pub mod Timing
pub mod Writing
pub mod Entry
pub mod Head
pub mod Standing
pub mod Answers
