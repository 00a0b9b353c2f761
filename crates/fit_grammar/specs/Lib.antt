-- The FIT format; what public contracts use beside it; what only private functions and proofs need.
pub mod Format
pub mod Calls
pub mod Private
pub use Rattle.fit_base.specs.Number
pub use Rattle.fit_base.specs.Checksum
pub use Rattle.fit_base.specs.Base
pub use Rattle.fit_base.specs.Value
