-- An encoded message reads as the original one.
pub mod Rows
pub mod Raw
pub mod Fields
pub mod Messages
pub mod Compressed
