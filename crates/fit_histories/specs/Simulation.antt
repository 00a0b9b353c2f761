-- The simulated disk: what is arranged of its calls, which choice bytes a power cut takes, and histories that they decide.
pub mod Arranging
pub mod Choices
pub mod Following
pub mod Failing
