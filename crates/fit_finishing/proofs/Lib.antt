-- What several proofs need: what is kept of a ride, how many entries are heard, what is added to a file, and that it is then a file and an activity.
mod Kept
mod Taken
mod Room
mod Added
mod Detailed
mod Possible
mod Passes
