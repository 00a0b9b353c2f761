-- A recording begins: at each moment nothing is recorded, or its start is.
pub mod Front
pub mod Begun
