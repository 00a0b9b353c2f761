-- What is read and printed.
pub mod Printed
pub mod Inputs
pub mod Salvaged
