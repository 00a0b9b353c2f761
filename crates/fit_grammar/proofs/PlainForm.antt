-- The plain form of a file: it encodes the same messages, and is made item by item.
pub mod Taken
pub mod Timed
pub mod Messages
pub mod Unchanged
pub mod SoFar
pub mod Written
pub mod Stood
