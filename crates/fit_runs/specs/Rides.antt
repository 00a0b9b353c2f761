-- What events leave of the disk of a ride, lines that come one by one, when a recording answers and commits by itself, and what a power cut
-- may lose.
pub mod Played
pub mod Dues
pub mod Heard
pub mod Turns
pub mod InTurn
pub mod Listening
pub mod Lost
