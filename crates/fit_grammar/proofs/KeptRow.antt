-- A file in memory, for `File` and `Items`: its items are read again from the row of bytes that it keeps.
pub mod InForce
pub mod ByLookup
pub mod Following
pub mod ReadAgain
pub mod Left
pub mod Lent
pub mod Kept
