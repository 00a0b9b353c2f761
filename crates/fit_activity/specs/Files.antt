-- When a file is an activity, and the summary of a recording's finished file.
pub mod Activity
pub mod FaultName
pub mod Finished
