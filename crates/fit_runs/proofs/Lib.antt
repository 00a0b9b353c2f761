-- No crate above uses it.
mod Exchanged
mod Reported
