-- The memory disk fails only if that was arranged, and a power cut leaves what the choice bytes decide.
pub mod Memory
pub mod Counts
pub mod Asking
pub mod Following
pub mod Failing
