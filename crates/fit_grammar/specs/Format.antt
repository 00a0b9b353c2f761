-- The FIT format itself: what a reader of the standard must agree with.
pub mod Item
pub mod Records
pub mod Message
pub mod OneValue
pub mod File
pub mod Refusal
pub mod Encoding
