-- Decoding in pieces, for the clauses of `Decoder`: all that was fed is one list of bytes, and the state of the decoder is the
-- same as if it had come whole.
pub mod Noted
pub mod Standing
pub mod Items
pub mod Carried
pub mod Ended
pub mod Begun
pub mod Reported
pub mod Asked
