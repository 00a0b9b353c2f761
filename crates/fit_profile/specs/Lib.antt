pub mod Scale
pub mod Facts
pub mod Table
pub mod Known
pub mod Row
