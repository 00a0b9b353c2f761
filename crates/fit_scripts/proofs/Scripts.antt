-- What the words and lines of a script state.
pub mod Numbers
pub mod Settings
pub mod Lines
pub mod CanRun
pub mod Hexadecimal
