-- Rows of items, and pieces of bytes, one after another.
pub mod Rows
pub mod Cut
pub mod Files
mod Found
mod Defined
mod Riding
pub mod Others
mod Steady
mod Trusted
mod Reading
