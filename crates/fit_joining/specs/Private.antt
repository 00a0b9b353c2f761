pub mod Lent
pub mod Row
