-- The messages of a recording, as fields and as bytes, and which entry a message belongs to.
pub mod Numbers
pub mod ProfileField
pub mod ProfileMessage
pub mod RideMessages
pub mod SpokenMessage
pub mod MessageBytes
pub mod Compressed
pub mod EntryOf
pub mod Replay
pub mod FrozenReplay
