-- Definitions for private functions and proofs.
pub mod OneMessage
pub mod Spelled
pub mod Encoded
pub mod State
pub mod RecordingFiles
pub mod ItemRead
pub mod BodyRead
pub mod Checksums
pub mod Begun
pub mod BodyHeard
pub mod Length
pub mod Closing
pub mod Closes
