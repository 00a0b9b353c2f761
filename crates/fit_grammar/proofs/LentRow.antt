-- A file that is lent in its bytes, for `LentFile`: its items are passed over where they are, and can be those of a file in memory.
pub mod Fitting
pub mod Passed
pub mod Closing
