pub mod Content
pub mod Row
pub mod Plain
pub mod Read
