-- What is printed of a file in other forms: JSON and GPX, tables, the fields of a table of all, and what is said of one of several.
pub mod Exported
pub mod Tabled
pub mod Held
pub mod Checked
