-- Histories of a recording: the answers that may come to its commands, whatever fails and whenever the power is cut.
pub mod Claims
pub mod Table
pub mod Arranged
pub mod Runs
pub mod Plain
