-- The public lemmas are those that proofs of the crates above cite.
pub mod Register
mod Blocks
mod Entries
pub mod Sums
pub mod Numbers
mod Powers
pub mod Signs
mod Fields
pub mod Values
mod Examples
