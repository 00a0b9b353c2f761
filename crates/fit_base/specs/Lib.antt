pub mod Number
pub mod Checksum
pub mod Base
pub mod Value
