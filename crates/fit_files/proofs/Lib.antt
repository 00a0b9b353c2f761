-- For crates above, and what no crate above uses.
pub mod Pieces
pub mod Reported
mod Headers
mod Mending
mod Exports
