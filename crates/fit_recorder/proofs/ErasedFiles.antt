-- An erasing leaves what could be left before, or nothing recorded.
pub mod Erased
