-- What is printed of a file, and the output of each call.
pub mod Summary
pub mod Shown
pub mod Checked
pub mod Salvaged
pub mod PlainFile
pub mod Kept
pub mod Mended
pub mod Parts
