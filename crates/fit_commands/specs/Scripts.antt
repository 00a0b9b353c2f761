-- Of the subcommands that run a script or lines: their faults, and what they did.
pub mod Faults
pub mod Reported
