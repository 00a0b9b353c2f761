-- Reading one item: how items are spelled, that only one answer is right, and the least length of an item.
pub mod Spelling
pub mod DefinitionRead
pub mod Steps
pub mod Lengths
pub mod Least
pub mod DefinitionSize
