pub mod Exchanges
pub mod Rides
pub mod Printed
