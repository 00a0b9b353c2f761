-- A folder for each theorem. No crate above uses them.
mod Histories
mod Simulation
