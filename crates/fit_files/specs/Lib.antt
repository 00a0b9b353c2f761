pub mod Printed
pub mod Calls
pub mod Exports
