-- Encoding a file, for `encode_file`: what is written is a file, and how written texts join.
pub mod Output
pub mod Checked
pub mod Encoding
pub mod Encoded
pub mod Extended
