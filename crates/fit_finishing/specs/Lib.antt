pub mod Entries
pub mod Heard
pub mod Effort
pub mod Sports
pub mod Details
pub mod Lacking
pub mod Finished
pub mod Private
