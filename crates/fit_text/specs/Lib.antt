pub mod Date
pub mod Notation
pub mod Values
pub mod Form
pub mod Text
pub mod Json
pub mod Pen
pub mod Plan
