-- For crates above.
pub mod Saved
