-- What the two files of a recording stand for, and what a finished file is.
pub mod Header
pub mod Items
pub mod Limits
pub mod Body
pub mod Committed
pub mod Finished
pub mod Settled
pub mod Uncommitted
pub mod Changed
pub mod Earlier
pub mod NothingRecorded
pub mod NeverFull
