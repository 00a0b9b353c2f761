pub mod Carried
pub mod Within
pub mod Planned
pub mod Between
pub mod CutOff
pub mod Plan
pub mod Lent
pub mod Part
