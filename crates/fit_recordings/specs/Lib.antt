pub mod Saved
pub mod Lacking
pub mod Repaired
pub mod Rereading
