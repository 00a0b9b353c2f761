-- What is printed: lines, and the output of a simulation.
pub mod ReplyLines
pub mod Simulation
pub mod FaultyLines
