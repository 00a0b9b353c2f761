-- A stop and a recovery leave a finished file.
pub mod Closing
pub mod Finish
pub mod Stands
