-- A recovery reads the one list that the files stand for.
pub mod Settled
pub mod Reading
pub mod Recovered
pub mod OneList
