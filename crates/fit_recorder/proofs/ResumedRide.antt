-- A resume continues the one ride that the files stand for.
pub mod Tail
pub mod Found
pub mod Resumed
