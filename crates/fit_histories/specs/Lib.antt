pub mod Commands
pub mod Rides
pub mod Simulation
pub mod Histories
