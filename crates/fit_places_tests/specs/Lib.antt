pub mod Ride
