-- There is a folder for each theorem; the folders in small letters have what single functions need. The public lemmas are those
-- that proofs of the crates above cite.
pub mod OneItem
pub mod Decoding
mod Pieces
pub mod Encoder
pub mod KeptRow
pub mod Filled
mod LentRow
pub mod PlainForm
mod StatedTime
pub mod OneValue
pub mod Counted
pub mod ChangedContent
