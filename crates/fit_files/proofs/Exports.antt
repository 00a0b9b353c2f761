-- Tables, and the fields that messages have.
pub mod Fields
pub mod Tabled
