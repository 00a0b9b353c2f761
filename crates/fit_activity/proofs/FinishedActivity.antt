-- A finished recording is an activity.
pub mod Passed
pub mod Finished
