mod Planning
mod Inside
pub mod Room
pub mod Prefix
pub mod Lending
